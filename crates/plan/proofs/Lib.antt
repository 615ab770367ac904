pub mod Bits
pub mod Dialled
pub mod Counts
pub mod Cases
pub mod Reading
