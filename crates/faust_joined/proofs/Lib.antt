-- Messages on their way to the server.
pub mod Queues
-- One more operation that arrived.
pub mod Grown
-- The steps of a client.
pub mod Beginning
pub mod Completing
pub mod Ticking
pub mod Hearing
-- What clients say to one another.
pub mod Saying
-- What the server replies.
pub mod Replying
-- What arrives at the server.
pub mod Arriving
-- One more entry.
pub mod Entering
pub mod Acting
pub mod Serving
pub mod Joining
-- What completions tell.
pub mod Telling
-- Whole runs.
pub mod Running
-- The order of arrival.
pub mod Linear
-- The versions that clients make.
pub mod Comparing
-- Tags that aren't forged.
pub mod Unforged
pub mod Making
pub mod Clearing
