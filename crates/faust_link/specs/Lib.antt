pub mod Frames
pub mod Counts
pub mod Links
pub mod Views
pub mod MemoryNet
pub mod Changes
pub mod Finding
