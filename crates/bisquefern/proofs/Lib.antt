-- Where the records lie that the calls answer, demand 3 over bytes, and rows of splits over numbers.
pub mod Placed
pub mod Rows
pub mod SplitRow
