pub mod AbLsn
pub mod Parting
