pub mod Nodes
pub mod SmallTrees
pub mod Trees
pub mod Scanning
