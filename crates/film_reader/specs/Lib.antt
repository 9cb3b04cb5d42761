pub mod Clips
pub mod Gains
pub mod Top
