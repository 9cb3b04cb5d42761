pub mod Numbers
pub mod Places
pub mod Results
pub mod Segments
pub mod MainHeads
pub mod Parts
pub mod ReadBack
pub mod Known
