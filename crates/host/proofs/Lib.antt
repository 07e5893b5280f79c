pub mod Part
pub mod Handed
