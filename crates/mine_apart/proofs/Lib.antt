pub mod Joined
pub mod Places
