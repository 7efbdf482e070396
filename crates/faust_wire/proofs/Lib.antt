-- From the smallest pieces to whole texts. A reader comes with two laws: what it reads is spelled so, and what is
-- spelled so is read again, whatever follows.

-- the steps of the loops that read entries and items
pub mod Loops
-- a reader and a spelling that fit, and readers made from others
pub mod Readers
-- flags, numbers, tags and values
pub mod SmallParts
-- versions
pub mod Entries
-- signed versions, tuples and read parts
pub mod Composites
-- COMMIT, and SUBMIT with the COMMIT that rides on it
pub mod Submits
-- the other messages, and any message
pub mod AnyMessages
-- whole texts, and what the laws and the calls say of them
pub mod Messages
-- how long spellings are at most
pub mod Lengths
-- that spellings are bytes
pub mod Bytes
