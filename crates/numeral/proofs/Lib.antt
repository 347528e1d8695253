-- Rounding to the nearest value, and what digits stand for.
mod Round
pub mod Text
pub mod Values
pub mod Numbers
