-- How deeds change what a client heard, and what they send.
pub mod Putting
pub mod Posting
pub mod Parts
-- Each deed keeps what is known of held versions.
pub mod Holding
pub mod Hearing
pub mod Finishing
pub mod Stepping
-- What clients cover, and what clean runs promise.
pub mod Covering
pub mod Claims
-- What happens where incomparable versions meet.
pub mod Meeting
