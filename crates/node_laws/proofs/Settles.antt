-- That settling ends, and what it comes to.
pub mod Asking
pub mod Counting
pub mod Exchanges
pub mod Falls
pub mod LostRounds
pub mod Playing
pub mod Replied
pub mod Rounds
pub mod RoundsLeft
pub mod Shares
pub mod Telling
pub mod Totals
pub mod TxnRounds
pub mod Wants
