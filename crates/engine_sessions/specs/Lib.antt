-- what a crate above names of those below
pub use Rattle.engine_shared.specs.engine_history as engine_history
pub use Rattle.engine_shared as engine_shared
