pub mod Text
pub mod CodePuts
