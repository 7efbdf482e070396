pub mod Requests
pub mod Arriving
pub mod Logs
pub mod Cells
pub mod Connections
pub mod Rounds
