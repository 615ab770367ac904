-- An overture through its stages: where each begins, how long it lasts, and where the line is up.
pub mod Stages
pub mod Lasting
pub mod Counted
pub mod Bits
pub mod Dialling
pub mod Digits
pub mod Connected
pub mod Overture
pub mod Cue
