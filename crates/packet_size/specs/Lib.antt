pub mod Counting
pub mod Pending
pub mod SmallTrees
pub mod Trees
pub mod Sizes
pub mod Lengths
