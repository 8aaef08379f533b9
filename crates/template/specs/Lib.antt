pub mod NeighbourHeader
pub mod NeighbourMessage
pub mod Neighbours
