-- The headline, part by part.
pub mod Promising
