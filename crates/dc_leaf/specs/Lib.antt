pub mod Leaf
pub mod Places
pub mod Performs
pub mod TakingBack
pub mod Honest
pub mod Parting
pub mod Tiles
pub mod Tops
