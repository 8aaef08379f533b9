pub mod Action
pub mod Attribute
pub mod Flags
pub mod Header
pub mod Message
pub mod PortRange
pub mod UidRange
