pub mod Sound
pub mod Words
