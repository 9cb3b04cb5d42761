pub mod Filled
pub mod Joined
pub mod Levels
pub mod Limits
pub mod Order
pub mod Sizes
pub mod Taken
pub mod Whole
