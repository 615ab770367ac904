-- Laws on what a call costs.
pub mod Plain
pub mod Hours
pub mod Reading
