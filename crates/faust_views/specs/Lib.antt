pub mod Forks
pub mod Keys
pub mod Grown
pub mod Forests
pub mod Noted
