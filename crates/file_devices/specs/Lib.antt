pub mod Failing
pub mod PageFile
