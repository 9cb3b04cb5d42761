pub mod Coded
pub mod Sized
pub mod Changes
