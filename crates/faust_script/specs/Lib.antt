pub mod Words
pub mod Forms
pub mod Parsing
pub mod Scripts
pub mod Refusals
pub mod InRange
pub mod Generated
pub mod Stepping
