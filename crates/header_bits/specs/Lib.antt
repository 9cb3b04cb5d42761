pub mod Heads
pub mod Zeros
pub mod Takes
