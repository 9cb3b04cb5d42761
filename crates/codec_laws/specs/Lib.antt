pub mod BitsAhead
pub mod Bounds
pub mod Codewords
pub mod Contexts
pub mod Places
pub mod PlaneDecisions
pub mod TreeReading
