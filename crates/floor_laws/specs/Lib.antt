pub mod Floors
pub mod Searches
