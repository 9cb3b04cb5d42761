pub mod Bands
pub mod Counts
pub mod Planes
pub mod Rows
pub mod Words
