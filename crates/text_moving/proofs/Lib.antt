pub mod Tags
pub mod Cells
