pub mod Alone
pub mod Rows
pub mod Tables
pub mod Fitting
pub mod Devices
