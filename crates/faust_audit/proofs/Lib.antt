-- clients of a run are in range
pub mod Clients
-- replies that came
pub mod Replies
-- messages to others, and their bodies
pub mod Posts
-- a reply that completes an operation
pub mod Completions
-- what is seen of an entry is what its deed makes, hashes and leaves
pub mod Seeing
-- a book of digests
pub mod DigestLaws
-- the tables as lists
pub mod TableLaws
-- the table of inputs with one more
pub mod InputLaws
-- a pass with one more entry
pub mod PassLaws
-- the entries of a run one after the other
pub mod Along
-- what a pass tells
pub mod Verdicts
-- the honest server along a run
pub mod Following
-- the operations that completed
pub mod CompletedNames
-- what is gathered
pub mod Gathering
