pub mod Lent
pub mod Loops
pub mod Parts
