pub mod Letters
pub mod Passing
