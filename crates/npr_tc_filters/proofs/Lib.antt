pub mod EqualityLaws
