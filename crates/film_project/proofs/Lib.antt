pub mod Ids
pub mod Kept
pub mod Walks
pub mod Whole
