mod AddressSteps
pub mod EqualityLaws
mod ValueEquality
