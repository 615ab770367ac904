-- Laws on the keys that are dialled.
pub mod Lit
