pub mod Binary
pub mod Clauses
pub mod Reading
