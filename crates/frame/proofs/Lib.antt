pub mod Pack
pub mod Draw
pub mod Tight
