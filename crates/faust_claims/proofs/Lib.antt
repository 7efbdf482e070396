-- Each way in which an entry brings a version.
pub mod Bringing
