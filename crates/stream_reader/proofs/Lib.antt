pub mod Filled
pub mod Whole
