-- What the proofs of several functions use, and that one answer fits each promise.
pub mod Laws
pub mod Record
mod Listed
mod Drawings
pub mod Only
pub mod Exact
