pub mod FileEntryLemmas
pub mod CrashImages
pub mod Find
pub mod Kept
pub mod SameFile
pub mod Logs
pub mod StoredFileLemmas
