-- Counts of links and of the net.
mod Counted
-- Seats, what users are told, and what is gathered.
mod Seats
mod Telling
mod Gathering
-- The answer of a call.
mod Answering
