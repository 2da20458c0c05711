pub mod Laws
pub mod LineEnds
pub mod Characters
pub mod Elements
pub mod AllEleven
