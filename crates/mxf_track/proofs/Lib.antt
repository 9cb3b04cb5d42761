pub mod Entries
pub mod Segments
pub mod Puts
pub mod RandomIndexes
