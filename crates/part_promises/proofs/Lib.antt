pub mod Pieces
pub mod Parts
