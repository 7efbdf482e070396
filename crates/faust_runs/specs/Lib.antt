pub mod Histories
pub mod ForkViews
pub mod Ledgers
pub mod Sound
