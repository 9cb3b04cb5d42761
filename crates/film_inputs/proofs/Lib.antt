pub mod Planning
pub mod Sounds
