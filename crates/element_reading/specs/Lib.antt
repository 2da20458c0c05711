pub mod Elements
pub mod Words
