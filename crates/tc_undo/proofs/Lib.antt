pub mod Undoing
pub mod Numbers
