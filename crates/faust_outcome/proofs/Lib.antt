-- words and the command that they are the form of
pub mod WordLaws
-- what merging answers
pub mod MergedLaws
-- how much is gathered
pub mod Sizes
-- each gathering has one text
pub mod OutcomeLaws
-- what a run has shown that is told of
pub mod ToldLaws
-- the few numbers, piece by piece
pub mod Pieced
-- what is gathered of two clients that did nothing
mod Idle
