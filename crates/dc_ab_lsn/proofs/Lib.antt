pub mod Rising
pub mod Capturing
pub mod Noting
pub mod Popping
pub mod Placing
