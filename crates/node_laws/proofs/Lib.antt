pub mod Invariant
pub mod Restarts
pub mod Machine
pub mod Stood
pub mod Settles
pub mod Halves
pub mod Recovered
pub mod Devices
