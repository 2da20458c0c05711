pub mod Examples
pub mod Same
pub mod Placed
