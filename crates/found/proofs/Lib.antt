pub mod First
pub mod Scan
