pub mod Along
pub mod Stepping
pub mod Roaming
pub mod Applied
