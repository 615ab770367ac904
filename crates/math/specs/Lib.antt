pub mod Float
pub mod Sine
pub mod Decay
pub mod Whole
pub mod Narrow
pub mod Steps
