pub mod Wrap
pub mod Lent
pub mod Tight
