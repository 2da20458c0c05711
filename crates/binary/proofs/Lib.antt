pub mod Laws
pub mod Loops
pub mod Digits
pub mod RowFlags
