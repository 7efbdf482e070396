pub mod Sizes
pub mod Pieces
pub mod Versions
pub mod Peers
pub mod Fields
pub mod FirstBytes
