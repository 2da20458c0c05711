pub mod Sizes
pub mod RowForm
pub mod HeldForm
