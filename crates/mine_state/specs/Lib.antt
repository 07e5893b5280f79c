pub mod State
pub mod Change
pub mod WellFormed
pub mod CodeState
pub mod Which
