pub mod World
pub mod Honest
