pub mod CodeRoom
