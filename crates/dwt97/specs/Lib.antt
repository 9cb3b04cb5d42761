pub mod Lifting
pub mod Plane
pub mod Rounds
