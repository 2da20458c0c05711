pub mod Puts
pub mod Lists
pub mod Rows
pub mod Cells
pub mod Written
