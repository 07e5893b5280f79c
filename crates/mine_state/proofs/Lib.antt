pub mod Creatures
pub mod Cells
pub mod Facts
pub mod Cases
pub mod Alone
pub mod Coins
pub mod Which
