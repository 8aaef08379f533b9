pub mod EncEquality
pub mod EqualityLaws
pub mod KindEquality
pub mod OptionReads
pub mod PeditEquality
pub mod ValueEquality
