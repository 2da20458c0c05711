pub mod Complement
pub mod Taken
pub mod Writing
