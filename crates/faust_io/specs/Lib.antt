pub mod Faults
pub mod Reading
pub mod Writing
pub mod Moments
pub mod Jobs
pub mod Started
pub mod Calls
pub mod Memory
