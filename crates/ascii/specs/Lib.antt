-- The bytes of a fixed text, a buffer that bytes were written to, and a byte in upper case.
pub mod Ascii
pub mod Front
pub mod Upper
