pub mod CountedInto
pub mod NodeBits
pub mod Paths
pub mod Building
pub mod SizesAlone
pub mod BlocksTold
pub mod Bodies
