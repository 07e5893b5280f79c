pub mod Sweeps
pub mod Trainer
pub mod CodeTable
