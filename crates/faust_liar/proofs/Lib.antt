pub mod Turns
pub mod Spelled
pub mod Sessions
pub mod Kept
pub mod Calls
pub mod Edits
pub mod EditsInRange
