pub mod Causes
pub mod Inspect
pub mod Texts
