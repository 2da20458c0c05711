pub mod Stages
pub mod Answers
pub mod Asked
