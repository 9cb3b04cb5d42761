pub mod KeyLaws
pub mod Sizes
pub mod HeadSizes
