pub mod Alike
pub mod Apart
pub mod Cases
pub mod Draws
pub mod Step
pub mod Tick
pub mod Who
