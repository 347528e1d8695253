-- The theorems: Whole, OldSheets, RetiredSheets, Viewing, Example. Sheets has what the program uses.
mod Ranges
mod Given
mod Threes
mod Lengths
mod Joined
mod Fill
mod Boxes
mod Heads
pub mod Sheets
pub mod Viewing
mod Parting
pub mod Whole
pub mod OldSheets
pub mod RetiredSheets
pub mod Example
