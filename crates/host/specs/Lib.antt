pub mod Plain
pub mod Mine
pub mod Cutter
