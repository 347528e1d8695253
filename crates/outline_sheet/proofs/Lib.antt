-- The theorem: Reopens.
pub mod Written
pub mod Reopens
