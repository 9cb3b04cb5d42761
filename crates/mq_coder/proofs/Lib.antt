pub mod Table
pub mod Outputs
pub mod Doublings
pub mod Coding
pub mod Endings
pub mod Resume
pub mod Inputs
pub mod Bits
