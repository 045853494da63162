pub mod Applied
pub mod Dues
