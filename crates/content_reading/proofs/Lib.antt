pub mod Singles
pub mod Chars
pub mod Packing
pub mod Words
pub mod Runs
