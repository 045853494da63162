pub mod Entered
pub mod Outages
-- what a crate above names of those below
pub use Rattle.engine_answers.specs.node_laws as node_laws
pub use Rattle.engine_answers.specs.engine_history as engine_history
pub use Rattle.engine_answers as engine_answers
