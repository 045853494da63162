mod Ending
mod Telling
mod Answering
mod Refusing
mod Resuming
mod Marking
mod Closing
mod Batching
mod Beginning
mod Renewal
pub mod Opening
pub mod Sharing
