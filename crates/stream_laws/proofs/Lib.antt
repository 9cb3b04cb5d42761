mod TileParts
mod BandValues
mod StreamRead
mod EncodingRead
mod Sums
mod BlockCounts
