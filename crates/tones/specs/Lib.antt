pub mod Samples
pub mod Mixed
pub mod Dial
