pub mod Below
pub mod Begun
pub mod Searches
