pub mod Ascii
pub mod Digits
pub mod Wrote
