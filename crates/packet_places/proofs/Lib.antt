pub mod Listed
pub mod Resolutions
