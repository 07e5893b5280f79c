pub mod Refused
pub mod Keys
pub mod Kept
pub mod Accounts
pub mod Answers
pub mod Cases
pub mod Cost
