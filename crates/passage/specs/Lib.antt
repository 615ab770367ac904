pub mod Lengths
pub mod Overture
pub mod Cue
