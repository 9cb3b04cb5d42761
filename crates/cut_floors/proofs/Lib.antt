mod Resolutions
mod PartSums
