pub mod Low
pub mod Sweeping
pub mod Telling
