-- The reader against the definition of the accepted text.
pub mod Lines
pub mod Items
pub mod Names
pub mod States
pub mod Turns
pub mod Outlines
pub mod Drawings
