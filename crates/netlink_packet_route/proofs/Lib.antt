-- the laws of messages, for a message of one's own
pub use Rattle.npr_base.proofs.Messages
pub mod CanonicalAttributes
pub mod CanonicalLaws
mod EncapNests
mod EqualityLaws
mod InnerLaws
mod LinkNests
pub mod NestLaws
mod NestRows
mod TcNests
mod ValueReading
pub mod FaultLaws
pub mod NumberLaws
pub mod ValidityLaws
pub mod CheckLaws
pub mod LeftLaws
pub mod Stopping
