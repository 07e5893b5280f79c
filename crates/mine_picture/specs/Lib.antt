pub mod Art
pub mod Picture
pub mod CodePicture
