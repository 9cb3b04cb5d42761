pub mod Signed
pub mod Quotients
