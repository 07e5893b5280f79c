pub mod CodePasses
