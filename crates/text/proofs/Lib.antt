-- Writing has the laws of pieces one after the other, Digits those of numbers as text.
pub mod Writing
pub mod Digits
mod Spread
