-- Laws of plain lists, their steps and views of an outline, over any numbers.
pub mod Tab
pub mod Steps
pub mod Lists
pub mod Copying
pub mod Every
pub mod Views
pub mod Good
pub mod Listing
pub mod Along
