-- Laws of the iteration, and of the writers that carry it out.
pub mod Iteration
pub mod Playing
pub mod Sending
pub mod Stages
pub mod Filling
