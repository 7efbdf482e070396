pub mod Lists
pub mod Inputs
pub mod Sizes
pub mod Blocks
