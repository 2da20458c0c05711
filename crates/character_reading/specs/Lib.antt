pub mod References
pub mod Characters
