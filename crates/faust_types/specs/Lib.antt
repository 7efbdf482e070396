pub mod Clients
pub mod Bytes
pub mod Held
pub mod Versions
pub mod Outcomes
pub mod Ranges
pub mod Messages
pub mod Spelling
