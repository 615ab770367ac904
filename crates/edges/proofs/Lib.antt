-- What the functions' proofs cite.
mod Halving
mod Refilled
