pub mod TableData
pub mod LineEnds
pub mod AllEleven
pub mod Clauses
