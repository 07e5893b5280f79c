pub mod Ways
pub mod Load
pub mod Move
pub mod Gravity
pub mod Tick
pub mod Cases
pub mod CodeWays
