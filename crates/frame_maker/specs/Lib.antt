pub mod Black
pub mod Making
