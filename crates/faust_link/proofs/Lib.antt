pub mod Framing
pub mod FrameLaws
