pub mod Runs
pub mod Bytes
pub mod Example
