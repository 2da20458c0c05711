pub mod Clauses
pub mod Words
