pub mod Heads
pub mod Screens
