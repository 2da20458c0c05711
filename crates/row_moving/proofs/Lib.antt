pub mod Copying
pub mod Moving
pub mod Beginning
pub mod Stopping
