pub mod Arrays
mod Coherent
pub mod EqualityLaws
mod Places
