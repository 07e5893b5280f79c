pub mod There
pub mod Numbers
