pub mod Causes
pub mod Inputs
