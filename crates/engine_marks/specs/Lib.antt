pub mod Bytes
pub mod Seen
pub mod Rule
