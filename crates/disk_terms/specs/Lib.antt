pub mod Disk
pub mod Worked
