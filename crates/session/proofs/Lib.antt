-- What the functions' proofs cite.
pub mod Dialled
pub mod Other
