pub mod Joined
pub mod Region
