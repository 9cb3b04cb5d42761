pub mod Pieces
pub mod Fills
pub mod Packs
pub mod SetSteps
pub mod SetsSteps
