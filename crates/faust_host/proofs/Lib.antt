-- how many arrivals each client has, and how many there are in all
pub mod Counting
-- the replay of one more arrival, and what a log keeps then
pub mod Growing
-- frames that were taken one after the other
pub mod Taking
-- why a connection stopped
pub mod Stopping
-- what an answer of a cell tells of the bytes
pub mod Telling
-- that a reply can be sent
pub mod Sized
-- what is due, step by step
pub mod Handling
-- the causes that a cell gives
pub mod Refusing
-- one round of a connection
pub mod Rounding
