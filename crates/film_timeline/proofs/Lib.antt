mod Covering
pub mod Fresh
