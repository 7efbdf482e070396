pub mod Branches
pub mod Edits
pub mod Sessions
pub mod Lies
pub mod InRange
pub mod Spelled
