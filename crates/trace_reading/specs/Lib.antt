pub mod CodeBuffers
pub mod CodeTurns
pub mod Entry
pub mod Run
pub mod Told
