pub mod Last
pub mod Seeing
