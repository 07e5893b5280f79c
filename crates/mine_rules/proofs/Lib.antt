pub mod Next
pub mod Start
pub mod GravityKeeps
pub mod GravitySound
pub mod Cases
