pub mod Running
pub mod Telling
pub mod Places
pub mod Calls
pub mod Quiet
pub mod Commanding
pub mod Closing
pub mod Lows
