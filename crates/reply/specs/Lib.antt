-- The result codes' numbers and texts.
pub mod Codes
pub mod Texts
