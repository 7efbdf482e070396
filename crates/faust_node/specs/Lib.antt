pub mod Sessions
pub mod Cells
pub mod Steps
pub mod Answers
pub mod Receipts
pub mod Sending
pub mod Serving
