pub mod Words
pub mod PoolText
