pub mod Locks
pub mod Meant
pub mod Least
pub mod Order
pub mod Index
pub mod Places
pub mod Rebuilt
