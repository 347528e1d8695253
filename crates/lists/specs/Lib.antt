pub mod Plain
pub mod View
pub mod Along
pub mod Every
