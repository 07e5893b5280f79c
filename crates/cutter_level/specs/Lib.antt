pub mod CodeDraws
pub mod CodeRing
