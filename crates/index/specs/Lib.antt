pub mod Index
pub mod Fetch
