pub mod Closest
pub mod Digits
pub mod Decimal
