pub mod Blocks
pub mod Started
pub mod Sound
