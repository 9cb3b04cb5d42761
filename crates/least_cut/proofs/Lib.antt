mod NextCut
mod Steps
mod Answered
