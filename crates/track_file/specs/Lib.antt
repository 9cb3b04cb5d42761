pub mod Causes
pub mod TrackFile
pub mod Views
