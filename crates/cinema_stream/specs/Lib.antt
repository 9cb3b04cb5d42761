pub mod Lengths
pub mod Sizes
pub mod Books
