-- What the functions' proofs cite, and lines that are computed.
pub mod Asked
pub mod Put
pub mod Examples
