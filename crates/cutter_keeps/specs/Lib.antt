pub mod Kept
pub mod Steps
pub mod Nearest
pub mod Share
pub mod Cost
