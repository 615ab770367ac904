-- Definitions that the contracts cite.
pub mod Bytes
pub mod Fnv
pub mod Laws
pub mod Wav
