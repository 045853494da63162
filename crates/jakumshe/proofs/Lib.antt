pub mod BoxCalls
pub mod Copying
pub mod Ends
pub mod HandleSteps
pub mod OnNode
pub mod Opening
pub mod Paging
