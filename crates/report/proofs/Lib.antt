-- What the functions' proofs cite.
pub mod Written
pub mod Examples
