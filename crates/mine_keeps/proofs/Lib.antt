pub mod Creatures
pub mod Gone
pub mod Grid
pub mod Changes
pub mod Gravity
pub mod Moves
pub mod Ticks
pub mod Load
