pub mod Puts
pub mod Contents
pub mod Cells
pub mod Rows
