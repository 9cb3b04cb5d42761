pub mod Ascii
pub mod Back
pub mod BackClips
pub mod BackTop
pub mod Printed
pub mod Shape
pub mod Size
pub mod Sizes
