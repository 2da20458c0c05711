pub mod Scan
pub mod NameBytes
