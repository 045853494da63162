-- what a crate above names of those below
pub use Rattle.shell_scripts as shell_scripts
