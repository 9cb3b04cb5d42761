mod Cells
mod Reading
mod Showing
mod Tasks
