pub mod Lists
pub mod Asked
