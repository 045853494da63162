pub mod Opening
pub mod Judging
pub mod Renewal
