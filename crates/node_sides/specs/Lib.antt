pub mod Seen
-- what a crate above names of those below
pub use Rattle.node_laws.specs.dc_core as dc_core
pub use Rattle.node_laws as node_laws
pub use Rattle.node_laws.specs.dc_store as dc_store
pub use Rattle.node_laws.specs.tc_core as tc_core
