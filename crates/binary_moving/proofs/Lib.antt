pub mod Counted
pub mod Contents
