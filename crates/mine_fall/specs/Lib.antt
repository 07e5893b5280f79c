pub mod CodeFalls
pub mod CodePlaces
