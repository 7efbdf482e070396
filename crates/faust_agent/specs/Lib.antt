pub mod State
pub mod Deeds
pub mod Table
pub mod Outcomes
pub mod InRange
pub mod Tells
