pub mod Images
pub mod Shape
pub mod Recovery
pub mod Laws
pub mod Ready
pub mod Leaves
pub mod Example
