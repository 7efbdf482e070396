-- when a journal's step is refused, and what it leaves
pub mod Refused
-- what a cell keeps
pub mod Kept
-- which inputs a cell takes, and what the client waits for once its user began
pub mod Begun
-- what a client sends is carried by a link
pub mod Carried
-- the first entry from a place on
pub mod First
-- each message of a list is carried
pub mod Posts
