pub mod CodeKeys
