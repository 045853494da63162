pub mod View
pub mod Laws
pub mod Running
pub mod Views
pub mod Refusals
pub mod Examples
pub mod Lasting
pub mod Reading
