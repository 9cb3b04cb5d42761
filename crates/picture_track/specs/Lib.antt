pub mod Causes
pub mod Ends
pub mod Frames
pub mod Picture
