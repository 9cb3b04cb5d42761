pub mod Needs
pub mod Plan
