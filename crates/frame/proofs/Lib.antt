-- Laws on frames.
pub mod Bits
