pub mod Codes
pub mod Answers
pub mod Blank
