pub mod Copied
pub mod Encoded
pub mod Frames
pub mod Outcomes
pub mod Singles
