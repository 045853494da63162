mod Performed
mod AtKey
pub mod Listed
pub mod Kept
