-- Lists that grow at their end.
pub mod Snocs
-- The names that a test keeps of a fork.
pub mod Listed
-- Which operations stay in a view.
pub mod Kept
-- Forks of a chronicle.
pub mod Known
-- The last completed operation of a client.
pub mod Last
-- What registers hold after what stays of a fork.
pub mod Held
-- What stays of a fork is a view.
pub mod Viewed
-- It is causal.
pub mod Caused
-- It keeps weak real time, and two join at most once.
pub mod Joined
-- All of it, of the views of a chronicle.
pub mod Holding
-- Cuts.
pub mod Cutting
-- Fork views.
pub mod ForkNames
-- A view is what stays of a fork view.
pub mod Staying
-- What fork views tell.
pub mod Telling
