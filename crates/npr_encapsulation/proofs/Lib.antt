pub mod Groups
pub mod Options
pub mod Texts
pub mod EncapsulationNormalizedLaws
mod Checked
pub mod EqualityLaws
