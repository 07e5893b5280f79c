pub mod Ground
pub mod Marks
pub mod Layers
