pub mod Changes
pub mod Rest
pub mod Writes
pub mod Moments
pub mod Untouched
pub mod Crashes
