pub mod Differ
pub mod Agrees
pub mod Places
