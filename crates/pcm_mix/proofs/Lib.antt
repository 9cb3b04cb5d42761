pub mod ClipFrames
pub mod Frames
pub mod Mixed
pub mod Raised
pub mod Totals
