-- How a node stands for the list machine, and that each event is a step of it.
pub mod Awaited
pub mod Clients
pub mod Committing
pub mod Follows
pub mod Headline
pub mod Opened
pub mod Idle
pub mod Readers
pub mod Reading
pub mod Refused
pub mod Replies
pub mod Rows
pub mod Settled
pub mod Standing
pub mod ToldReads
pub mod Undone
pub mod Waited
