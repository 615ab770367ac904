-- What the functions' proofs cite.
pub mod Pages
pub mod Texts
pub mod Examples
mod Hex
