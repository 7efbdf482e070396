-- Small facts on options and names.
pub mod Options
-- What an input of a client tells.
pub mod Events
-- What a client holds besides, as its deeds change it.
pub mod Frames
-- What a deed leads to: a beginning, a completion, messages, or nothing.
pub mod Leading
pub mod Beginnings
pub mod Completions
pub mod Deeds
-- Each entry keeps the ledger sound.
pub mod Bodies
-- Each entry keeps the ledger sound.
pub mod Stepping
pub mod Ledgers
-- What an entry begins and completes, read off its input and its outcome.
pub mod Changes
-- The history of a run.
pub mod Reading
-- Fork views, and what stays of them.
pub mod Viewing
-- What clean runs promise.
pub mod Claims
-- Up to one of its entries.
pub mod Splits
