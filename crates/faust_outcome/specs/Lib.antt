pub mod Words
pub mod UserLists
pub mod Gathering
pub mod Outcomes
pub mod Told
pub mod Forms
pub mod Deciding
