pub mod Steps
pub mod Places
pub mod BitNumbers
pub mod Takes
pub mod Sizes
pub mod Leaves
