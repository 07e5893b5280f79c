pub mod Runs
pub mod Mines
pub mod Cuts
