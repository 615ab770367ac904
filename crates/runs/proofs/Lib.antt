-- What the functions' proofs cite.
pub mod Counted
pub mod Runs
