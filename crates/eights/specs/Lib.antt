pub mod Lowest
pub mod Marks
pub mod Parts
