pub mod CodeTally
pub mod First
