pub mod Answers
pub mod Keys
pub mod Kept
