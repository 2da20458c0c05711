pub mod Tables
pub mod Demands
pub mod Places
pub mod Cases
pub mod LineEnds
pub mod OneRow
pub mod TwoNights
