-- Tuples and walks of the part of a history that isn't settled.
pub mod Pending
-- What is held of one client, and what stands in its memory.
pub mod Held
-- What follows of the counts of an honest server's history.
pub mod Standing
-- The state that no message reached.
pub mod First
-- The row COMMIT.
pub mod Commits
-- The row SUBMIT.
pub mod Submits
-- The reply that a SUBMIT gets.
pub mod Replies
-- The rows as whole, and a COMMIT that rides on a SUBMIT.
pub mod Rides
