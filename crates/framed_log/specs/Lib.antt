pub mod Beginning
pub mod Crashed
pub mod Opening
pub mod Refused
pub mod Spelled
