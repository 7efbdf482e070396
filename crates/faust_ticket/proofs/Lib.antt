pub mod Once
pub mod Totals
pub mod Keeps
pub mod Allowed
