pub mod Mines
pub mod Cutters
