-- what one entry changes
pub mod Changes
-- operations complete in the order in which they began
pub mod Ordered
-- so the u-th completion is that of a user's u-th operation
pub mod Told
-- one pass over a record compares receipts
pub mod Passing
-- the line of a completed operation tells all of it
pub mod Printed
-- no line comes exactly where every receipt is a completion
pub mod Right
-- which user is short
pub mod Stopping
