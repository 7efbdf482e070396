-- entries of one client among those of all, and what it holds after them
pub mod Own
-- what an arrival is at its client, and when an input may come
pub mod Inputs
-- runs with one more entry, and their fronts
pub mod Runs
-- journals with one more entry
pub mod Journals
-- agents after one more entry
pub mod Agents
-- outboxes after one more entry, and the message that is due
pub mod Outboxes
-- what `act` leaves, and what a step of a journal is due
pub mod Steps
-- what a push is due
pub mod Pushes
-- what follows for runs
pub mod Fronts
-- the order of numbers
pub mod Sorting
-- a table of entries by number
pub mod Tables
-- messages that arrive in order
pub mod Fed
-- journals and arrivals merged
pub mod Merged
-- runs are made by pushes
pub mod Again
-- tags of what is made
pub mod Tagged
