pub mod FlagLaws
