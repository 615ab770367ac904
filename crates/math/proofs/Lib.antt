-- Laws on IEEE 754's numbers, which the crates above cite.
pub mod Tests
pub mod Error
pub mod Values
pub mod Pattern
pub mod Narrowing
pub mod Whole
pub mod Rounding
pub mod Bounds
pub mod Wrapping
pub mod Equal
pub mod Units
pub mod Constants
pub mod Size
