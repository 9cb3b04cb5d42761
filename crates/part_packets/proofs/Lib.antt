pub mod Advances
pub mod Fitting
pub mod Counting
pub mod Listed
pub mod Behind
pub mod PacketSteps
pub mod PartSteps
