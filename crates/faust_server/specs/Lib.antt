pub mod Rows
pub mod Ahead
pub mod States
pub mod TakenBack
