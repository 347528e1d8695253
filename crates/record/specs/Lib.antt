pub mod Bytes
pub mod Layout
pub mod Record
pub mod RoundTrip
