pub mod Going
pub mod Putting
pub mod Accepting
