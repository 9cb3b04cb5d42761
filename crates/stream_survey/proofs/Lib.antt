pub mod Behind
pub mod Advances
pub mod PacketSteps
pub mod PartSteps
pub mod StreamSteps
pub mod BandShapes
