pub mod Causes
pub mod Sound
