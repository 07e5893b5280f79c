pub mod State
pub mod WellFormed
pub mod Change
pub mod CodeState
pub mod Which
