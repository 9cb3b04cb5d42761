pub mod Marks
pub mod Steps
pub mod Columns
pub mod Blank
