-- Laws on the chip's text, its tables and its calls.
pub mod Text
pub mod Waiting
pub mod Unchanged
pub mod Reading
