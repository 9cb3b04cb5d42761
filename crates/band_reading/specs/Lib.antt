pub mod Samples
pub mod Packets
