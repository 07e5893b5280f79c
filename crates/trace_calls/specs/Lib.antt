pub mod Cutters
pub mod Either
pub mod Mines
pub mod Shared
