pub mod Causes
pub mod TcCalls
pub mod DcCalls
pub mod Steps
pub mod Refusals
