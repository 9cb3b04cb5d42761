pub mod Faults
pub mod Limits
pub mod Surveyed
pub mod Tasks
