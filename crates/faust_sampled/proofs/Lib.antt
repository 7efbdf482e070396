-- Playing event by event.
pub mod Leading
-- What stands all along a generated script.
pub mod Branch
pub mod Standing
-- The moments that clients hold.
pub mod Timers
-- Operations.
pub mod Phases
pub mod Letters
pub mod Steps
pub mod Drawing
-- The two rounds.
pub mod Told
pub mod Asking
pub mod Rounds
-- The whole script.
pub mod Playing
