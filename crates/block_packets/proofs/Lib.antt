pub mod Codes
pub mod Included
pub mod Areas
pub mod Bands
pub mod Writable
pub mod ChangedPlace
pub mod LeastSums
