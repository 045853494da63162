pub mod Opened
pub mod Closing
-- what a crate above names of those below
pub use Rattle.engine_sessions.specs.engine_history as engine_history
pub use Rattle.engine_sessions as engine_sessions
