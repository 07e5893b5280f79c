pub mod CodeApart
