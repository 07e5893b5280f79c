pub mod Pass
pub mod Accounts
pub mod CodePass
pub mod Cases
pub mod Cost
