pub mod Ahead
pub mod Level
pub mod Step
pub mod Tick
pub mod Sweeps
pub mod Cost
