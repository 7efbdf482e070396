-- each row keeps what every client keeps
pub mod Kept
-- the first version that doesn't fit, the greatest one, and the cut
pub mod Slots
-- the round of a tick, and the pending operation
pub mod Rounds
-- what a deed tells, and that a client in range can do it
pub mod Reasons
-- what a client sends is in range
pub mod Sends
