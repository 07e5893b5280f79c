pub mod Checks
pub mod Calls
pub mod Cases
pub mod Faults
