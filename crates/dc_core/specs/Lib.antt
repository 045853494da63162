pub mod DcView
pub mod Serves
pub mod Tends
pub mod Kept
pub mod Shows
pub mod Seen
pub mod Restarting
pub mod Performing
-- what a crate above names of those below
pub use Rattle.dc_store as dc_store
