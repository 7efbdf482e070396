pub mod Histories
pub mod Views
pub mod Cuts
pub mod ForkViews
pub mod Chronicles
