pub mod Asked
pub mod Begun
pub mod Checked
pub mod KeepsConnected
pub mod KeepsDc
pub mod KeepsSystems
pub mod Leaves
pub mod LowNumbers
pub mod Owed
pub mod Recoverable
pub mod Stored
pub mod Walks
mod Lifetimes
