pub mod Lines
pub mod Tokens
pub mod Numbers
pub mod Values
pub mod Causes
pub mod Fields
pub mod Heads
pub mod Spelled
