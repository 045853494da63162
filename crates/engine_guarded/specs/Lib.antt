pub mod Slots
pub mod Running
pub mod Hearing
pub mod Places
pub mod Callers
pub mod Found
pub mod Quiet
pub mod Commanded
pub mod Closing
-- what a crate above names of those below
pub use Rattle.engine_history.specs.node_laws as node_laws
pub use Rattle.engine_history as engine_history
pub use Rattle.engine_answers as engine_answers
pub use Rattle.node_world.specs.dc_store as dc_store
