pub mod Frames
pub mod Numbered
