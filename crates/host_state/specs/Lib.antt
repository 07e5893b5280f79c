pub mod Flags
pub mod Mine
pub mod Cutter
