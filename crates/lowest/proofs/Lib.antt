pub mod Decimal
pub mod Front
pub mod Marked
pub mod Places
