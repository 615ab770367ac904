-- Laws on the sender, and what the bits that it sends have to do with the bytes that waited.
pub mod Frames
pub mod Edges
pub mod Iteration
pub mod Playing
pub mod Bytes
pub mod Bits
pub mod Waves
pub mod Sofar
pub mod Reading
