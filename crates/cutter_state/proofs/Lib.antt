pub mod Cases
pub mod Signs
pub mod Ring
pub mod Facts
pub mod Which
