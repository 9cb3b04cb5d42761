pub mod Causes
pub mod Encoded
pub mod Ready
pub mod Shown
