pub mod Fours
pub mod High
pub mod Plain
pub mod Turns
pub mod Calls
