pub mod Members
pub mod Rising
pub mod Before
pub mod Standing
pub mod Order
