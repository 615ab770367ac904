-- What the functions' proofs cite.
pub mod Held
pub mod Reading
pub mod Parsed
pub mod Examples
