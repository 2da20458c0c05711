pub mod WordLaws
pub mod QuickLaws
