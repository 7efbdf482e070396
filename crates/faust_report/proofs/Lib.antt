pub mod Pieced
pub mod Summed
pub mod JsonData
