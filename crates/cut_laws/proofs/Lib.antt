pub mod RankLaws
pub mod Changes
pub mod Codewords
pub mod HeaderBits
pub mod Lengths
