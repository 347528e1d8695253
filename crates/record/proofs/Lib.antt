-- The theorems: Records.
mod Past
mod Words
pub mod Records
