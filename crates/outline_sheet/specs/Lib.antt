pub mod Sheet
pub mod Reopens
