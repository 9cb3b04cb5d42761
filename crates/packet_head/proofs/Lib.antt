pub mod PackedInto
pub mod BlockBits
