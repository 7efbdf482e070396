-- bodies that were made, and where none of them is forged
pub mod Forgeries
-- inputs that were hashed, and where none of them collide
pub mod Collisions
-- fronts of clean entries
pub mod Fronts
