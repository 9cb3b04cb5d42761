pub mod BlockSteps
pub mod Behind
pub mod CodewordSteps
pub mod BandSteps
