pub mod Crash
pub mod Device
pub mod LogState
pub mod PagesState
pub mod Usage
