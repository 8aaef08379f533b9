pub mod Coherent
pub mod Grown
pub mod Names
