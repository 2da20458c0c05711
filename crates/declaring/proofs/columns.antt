pub mod Numerals
pub mod Nulls
pub mod Names
