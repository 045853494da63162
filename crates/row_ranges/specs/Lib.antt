pub mod Beginnings
pub mod Backward
