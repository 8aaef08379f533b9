pub mod EqualityLaws
mod ValueEquality
