pub mod Hmac
pub mod Chain
pub mod Tag
pub mod Prepared
