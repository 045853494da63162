-- Crashes of either component, and what holds after them.
pub mod Beginnings
pub mod Crashes
pub mod Downs
pub mod Fallen
pub mod HonestShorter
pub mod Keeping
pub mod LosersHold
pub mod TcCrashes
pub mod TcDowns
