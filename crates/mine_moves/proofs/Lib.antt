pub mod Turns
pub mod Reading
pub mod Applied
