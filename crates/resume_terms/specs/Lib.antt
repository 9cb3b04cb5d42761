pub mod Resumable
pub mod Worked
