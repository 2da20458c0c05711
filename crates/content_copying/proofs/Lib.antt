pub mod Quick
pub mod Texts
pub mod Bits
pub mod Spaced
pub mod Own
