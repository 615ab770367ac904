-- What the functions' proofs cite.
mod Room
mod Kept
mod Ten
