pub mod HexText
pub mod Place
pub mod State
