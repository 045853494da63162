pub mod Calls
pub mod Handles
pub mod Holding
pub mod Logs
pub mod Parts
pub mod Records
pub mod Renewal
pub mod Statuses
