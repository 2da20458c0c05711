pub mod Stepping
pub mod Calls
