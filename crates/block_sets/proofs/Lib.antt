mod Rebuilt
pub mod Around
pub mod Bits
pub mod Blocks
pub mod Bytes
pub mod Counts
pub mod Exchanges
pub mod Frames
pub mod Inverses
pub mod Masks
pub mod Unions
pub mod WordByWord
pub mod BandBlocks
