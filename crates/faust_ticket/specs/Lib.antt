pub mod Numbers
pub mod Holders
pub mod Rule
pub mod Steps
pub mod Tokens
