pub mod Stamp
pub mod Layers
