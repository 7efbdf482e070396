-- How the definitions compute at one more operation.
pub mod Counts
-- Fronts of a history: their order, and what they count.
pub mod Tails
-- The front up to an operation.
pub mod Fronts
-- The names that a test keeps of a history.
pub mod Sifted
-- The order of names.
pub mod Orders
-- Versions and walks of histories.
pub mod Versions
-- Chain digests, where no two hashed inputs have one digest.
pub mod Chains
