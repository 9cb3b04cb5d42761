pub mod NodeReading
pub mod SmallPaths
pub mod Blanks
pub mod BlockSteps
pub mod Scans
