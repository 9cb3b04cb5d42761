pub mod Sizes
pub mod Trees
pub mod Children
pub mod Asking
