pub mod Apart
mod BringingUp
pub mod Doing
pub mod Framed
mod Serving
mod SpelledOp
