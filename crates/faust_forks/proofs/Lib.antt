-- what stands in lists that are put together
pub mod Members
-- what is found of operations
pub mod Found
-- what a made body and a right tag tell
pub mod Made
-- what entries left stays
pub mod Later
-- histories whose operations began and completed
pub mod Settled
-- versions that clients made are of histories
pub mod Booked
-- along the tuples of a reply
pub mod Walked
-- the chain lemma at a reply
pub mod Completing
-- versions and forks in one order
pub mod Ordered
-- what stands in registers
pub mod Registers
-- what holds before an entry holds behind it
pub mod Grounds
-- what reads answer
pub mod Answering
-- a fork by the names of its operations
pub mod Operations
