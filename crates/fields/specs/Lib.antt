pub mod Fields
pub mod Front
