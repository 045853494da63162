pub mod Component
pub mod Node
pub mod Failing
pub mod Messages
pub mod Source
pub mod Kept
pub mod Simulation
pub mod Standing
pub mod Stepping
pub mod Bound
pub mod Rounds
pub mod Fallen
pub mod Promises
pub mod Halves
pub mod Forgetting
pub mod Sound
-- what a crate above names of those below
pub use Rattle.dc_core as dc_core
pub use Rattle.dc_core.specs.dc_store as dc_store
pub use Rattle.tc_core as tc_core
