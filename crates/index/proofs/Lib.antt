pub mod Examples
pub mod Starts
pub mod Entries
pub mod Calls
