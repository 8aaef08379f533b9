pub mod CommandLine
pub mod Counted
pub mod Error
pub mod Report
pub mod Run
pub mod Where
