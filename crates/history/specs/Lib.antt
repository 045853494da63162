pub mod History
pub mod Spans
pub mod ListMachine
pub mod Log
pub mod Legal
pub mod Chains
pub mod Values
pub mod Honest
