pub mod Resolutions
pub mod PartSums
pub mod Written
