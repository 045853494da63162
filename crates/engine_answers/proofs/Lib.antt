pub mod Telling
pub mod Ending
pub mod Resuming
pub mod Beginning
