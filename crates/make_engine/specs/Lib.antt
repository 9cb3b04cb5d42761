pub mod Causes
pub mod Package
