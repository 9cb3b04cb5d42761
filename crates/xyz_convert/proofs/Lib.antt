pub mod Codes
pub mod Lookups
pub mod Planes
pub mod Roots
pub mod Sums
