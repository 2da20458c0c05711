pub mod Letters
pub mod Passes
