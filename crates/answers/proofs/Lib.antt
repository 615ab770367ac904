-- Demand 1, from the contract of each call, and read back.
pub mod Answers
pub mod Reading
pub mod Contracts
