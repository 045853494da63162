mod Numbering
pub mod Reading
pub mod Sharing
