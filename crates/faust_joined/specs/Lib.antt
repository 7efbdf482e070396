pub mod Promised
pub mod Joined
