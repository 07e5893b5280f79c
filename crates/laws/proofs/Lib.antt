pub mod Choice
pub mod Lists
pub mod Counts
pub mod Folds
pub mod Table
pub mod Below
pub mod Filter
pub mod Zip
