-- elements of a list all of whose elements have a property
pub mod Elements
-- one more operation keeps the ranges of a walk
pub mod Ranges
-- what it says that no check of a step is broken
pub mod Steps
-- from the verdict of a call to what is due
pub mod Told
-- to pass is to break no check, whatever the order
pub mod Passes
-- what a walk counts, and of which chain its digest is
pub mod Counts
-- a walk over two lists, and the digests that a walk leaves
pub mod Followed
-- what a reply tells that passes is in range
pub mod Next
-- the next version is above that of c and the own one
pub mod Above
-- what is hashed where no check is broken
pub mod Inputs
-- where judging stops, and what was hashed up to there
pub mod Stops
-- what is hashed is a front of what is hashed where nothing is broken
pub mod Fronts
