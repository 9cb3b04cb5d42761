pub mod Causes
pub mod Mix
pub mod Sums
