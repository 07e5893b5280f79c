pub mod Back
pub mod Order
