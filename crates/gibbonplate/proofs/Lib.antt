pub mod Bits
pub mod Numbers
pub mod Reload
pub mod Reading
