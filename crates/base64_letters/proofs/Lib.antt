pub mod Alphabet
pub mod Coding
