pub mod Number
pub mod Masks
