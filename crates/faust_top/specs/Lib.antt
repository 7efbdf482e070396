pub mod Commands
pub mod Accepting
pub mod Texts
pub mod Answer
pub mod Forms
pub mod Output
pub mod RecordInput
