-- the test whether one vector is ahead of another
pub mod Ordering
-- lists of tuples: how many of one client they have, and how long they can be
pub mod Tuples
-- each step of a row keeps what every state keeps, and a reply is in range
pub mod Kept
-- the rows as whole: in range, in turn, and with a COMMIT that rides
pub mod Rows
