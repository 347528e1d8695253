pub mod Line
pub mod Item
pub mod Entity
pub mod State
pub mod Outline
