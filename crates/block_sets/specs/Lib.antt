pub mod Places
pub mod Sets
pub mod Squares
pub mod Planes
pub mod Rebuilt
