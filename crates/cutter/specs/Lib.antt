pub mod Calls
pub mod Picture
pub mod Question
pub mod Turn
