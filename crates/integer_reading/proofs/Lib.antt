pub mod Spelling
pub mod Runs
pub mod Lanes
pub mod Figures
pub mod Digits
pub mod Short
