pub mod Clauses
pub mod Readers
