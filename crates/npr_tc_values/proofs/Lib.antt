pub mod EqualityLaws
pub mod KeptUnder
