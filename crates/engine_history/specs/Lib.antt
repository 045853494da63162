pub mod Steps
pub mod Sessions
pub mod Slots
pub mod Views
pub mod Commands
pub mod Adding
pub mod Witnessed
pub mod Kept
pub mod Callers
pub mod Latched
pub mod Waiting
pub mod Marking
pub mod Forcing
pub mod Ending
pub mod Closing
pub mod Failing
pub mod InFlightCalls
pub mod Messages
pub mod KeptEvents
pub mod KeptOuts
pub mod Lending
-- what a crate above names of those below
pub use Rattle.node_sides.specs.dc_core as dc_core
pub use Rattle.node_sides.specs.node_laws as node_laws
pub use Rattle.node_sides as node_sides
pub use Rattle.node_sides.specs.dc_store as dc_store
