pub mod Bounds
pub mod Sequence
pub mod Stream
pub mod AllEleven
pub mod Convert
pub mod Pieces
