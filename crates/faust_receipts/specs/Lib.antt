pub mod UserOperations
pub mod Receipts
pub mod Lines
pub mod Comparing
