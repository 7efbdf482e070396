pub mod Lists
pub mod Paths
pub mod Prefixes
pub mod Keeping
