pub mod Puts
pub mod Decimal
pub mod Lines
