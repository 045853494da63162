pub mod Beginning
pub mod Crashed
pub mod Framing
pub mod Opened
pub mod ReadOnce
pub mod Spelled
