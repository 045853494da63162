pub mod TcView
pub mod OpenTxns
pub mod Slots
pub mod Locking
pub mod Refusing
pub mod Causes
pub mod Changes
pub mod Changed
pub mod Calls
pub mod Finds
pub mod Replies
pub mod Answering
pub mod Recovery
pub mod Opening
pub mod Opened
pub mod Redoing
pub mod LowWater
pub mod Checkpoint
pub mod Kept
pub mod Undoing
pub mod Undo
pub mod Seen
pub mod Heard
-- what a crate above names of those below
pub use Rattle.tc_restart as tc_restart
