pub mod KnownBytes
pub mod Places
pub mod ReportLines
pub mod Reporting
