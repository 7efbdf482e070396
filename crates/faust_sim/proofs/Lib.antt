-- what the clients of a run send
pub mod Sendings
-- the places of messages between clients
pub mod Places
-- what events make of a scene
pub mod Scenes
-- what the liar hands out is no longer than a message may be
pub mod Sized
-- the messages of the last entry are noted
pub mod Noted
-- events one after the other
pub mod Events
-- a played run is no longer than its script
pub mod Lengths
