pub mod Grids
pub mod Heights
pub mod Wanted
pub mod Shapes
pub mod Parents
pub mod NewTree
pub mod ReadBack
pub mod Answered
