pub mod Chain
pub mod Nines
