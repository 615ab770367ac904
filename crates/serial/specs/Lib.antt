-- The lines of `serial`, and what it answers to them.
pub mod Lines
pub mod Answers
