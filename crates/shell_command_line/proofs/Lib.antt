pub mod Adding
pub mod Options
pub mod Subcommands
