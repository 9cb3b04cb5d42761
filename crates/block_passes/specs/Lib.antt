pub mod Scan
pub mod Zeros
pub mod Told
pub mod Candidates
pub mod Left
pub mod Marking
