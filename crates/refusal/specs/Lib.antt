pub mod Refusal
pub mod Faults
pub mod InPlace
