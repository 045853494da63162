pub mod Asking
pub mod Answers
pub mod Why
pub mod Unfinished
pub mod Again
-- what a crate above names of those below
pub use Rattle.engine_history.specs.dc_core as dc_core
pub use Rattle.engine_history.specs.node_laws as node_laws
pub use Rattle.engine_history.specs.node_sides as node_sides
pub use Rattle.engine_history as engine_history
pub use Rattle.engine_history.specs.dc_store as dc_store
