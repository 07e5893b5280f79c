pub mod Creatures
pub mod Answers
