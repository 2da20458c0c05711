pub mod Holding
pub mod Measuring
pub mod Converting
