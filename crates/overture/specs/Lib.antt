pub mod Iteration
pub mod Writers
