pub mod Numbers
pub mod CodeLays
