pub mod Headers
mod SegmentTexts
pub mod Seg6NormalizedLaws
mod Apart
pub mod EqualityLaws
