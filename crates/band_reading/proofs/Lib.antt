pub mod Puts
pub mod Found
pub mod GridParts
pub mod Shaped
pub mod Standing
pub mod BandRead
