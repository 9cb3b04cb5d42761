pub mod Cells
mod Greatest
