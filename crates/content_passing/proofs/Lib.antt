pub mod Copies
pub mod Letters
pub mod Ones
pub mod Padding
pub mod Texts
pub mod Truths
pub mod Wholes
