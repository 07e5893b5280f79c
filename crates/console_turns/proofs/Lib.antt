mod Drawn
pub mod Fit
