pub mod Addresses
pub mod Fault
pub mod OneByOne
pub mod Routes
pub mod Seen
pub mod Walk
