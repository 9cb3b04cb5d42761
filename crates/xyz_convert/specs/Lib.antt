pub mod Entries
pub mod Samples
pub mod Sound
pub mod Weighing
