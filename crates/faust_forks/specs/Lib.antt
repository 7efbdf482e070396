pub mod Books
pub mod Sources
pub mod Pairs
pub mod Pasts
pub mod Answers
pub mod Forks
