-- Laws on a set: that an answered call is accepted, its ranges, that calls leave it sound, what each answers and what a refusal leaves, that it follows the book, and the examples
-- of 01's table of refusals.
pub mod Accepted
pub mod Ranges
pub mod Soundness
pub mod String
pub mod Unchanged
pub mod Answers
pub mod Up
pub mod Follows
pub mod Steps
pub mod Cases
pub mod Before
pub mod Lit
pub mod Promises
pub mod Told
pub mod Declining
