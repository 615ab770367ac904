-- Laws on keys and digits.
pub mod Keypad
pub mod Line
pub mod Reading
