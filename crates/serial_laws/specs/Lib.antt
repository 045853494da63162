pub mod Replay
pub mod Serial
pub mod Alone
pub mod Laws
