pub mod Play
pub mod Mail
pub mod Playing
pub mod Sent
pub mod Kept
