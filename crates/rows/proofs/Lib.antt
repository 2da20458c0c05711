pub mod Sequences
pub mod LineEnds
pub mod Laws
pub mod Calls
pub mod Pieces
pub mod AllEleven
