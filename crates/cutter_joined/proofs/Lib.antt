pub mod Joined
pub mod Steps
pub mod Labels
pub mod Certificate
pub mod Region
