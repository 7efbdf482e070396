pub mod Checks
pub mod Passed
pub mod Hashed
pub mod InRange
