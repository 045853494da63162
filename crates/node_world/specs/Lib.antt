pub mod Quiet
pub mod Seen
pub mod Sent
pub mod SentReads
pub mod Served
pub mod SpelledOp
pub mod BringingUp
-- what a crate above names of those below
pub use Rattle.node_sides.specs.dc_core as dc_core
pub use Rattle.node_sides.specs.node_laws as node_laws
pub use Rattle.node_sides.specs.dc_store as dc_store
pub use Rattle.node_sides.specs.tc_core as tc_core
