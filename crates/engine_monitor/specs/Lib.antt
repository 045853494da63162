pub mod Answering
pub mod Ending
pub mod Beginning
pub mod Sessions
pub mod Opened
pub mod Engines
pub mod Batches
pub mod Renewing
-- what a crate above names of those below
pub use Rattle.engine_guarded as engine_guarded
