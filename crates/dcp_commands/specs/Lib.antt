pub mod Frame
pub mod Line
pub mod Make
pub mod Plan
pub mod Read
pub mod Run
pub mod Status
pub mod Words
