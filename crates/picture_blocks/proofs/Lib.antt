pub mod Steps
pub mod Begun
pub mod Values
