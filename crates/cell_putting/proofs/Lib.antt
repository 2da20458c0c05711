pub mod Stores
pub mod Cells
pub mod Elements
