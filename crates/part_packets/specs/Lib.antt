pub mod Refused
pub mod Counts
pub mod Shapes
