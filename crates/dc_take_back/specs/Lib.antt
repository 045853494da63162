pub mod Performed
pub mod Listed
pub mod Example
