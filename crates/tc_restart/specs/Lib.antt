pub mod Lists
pub mod Losers
pub mod Heaps
pub mod Plan
pub mod Redo
pub mod Laws
