pub mod Scan
pub mod Known
pub mod Bounds
pub mod Todo
pub mod Order
