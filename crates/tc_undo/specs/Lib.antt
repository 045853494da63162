pub mod Savepoints
pub mod NextUndo
