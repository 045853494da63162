pub mod Lists
pub mod Losing
pub mod Listed
pub mod Taking
pub mod Tops
pub mod Passing
mod RedoStart
pub mod Found
pub mod Building
