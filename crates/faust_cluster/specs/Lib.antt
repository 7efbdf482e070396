pub mod Answer
pub mod Casting
pub mod Counting
pub mod Ending
pub mod Props
pub mod Writing
