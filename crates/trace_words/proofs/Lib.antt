pub mod Bytes
pub mod Lays
pub mod Runs
pub mod Signs
