pub mod Lent
pub mod Values
pub mod Exact
pub mod Segment
