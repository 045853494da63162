pub mod Printing
pub mod Records
pub mod Grammar
pub mod Bindings
pub mod Running
pub mod Numbers
pub mod Telling
