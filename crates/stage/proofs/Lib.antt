-- Laws on what is shown.
pub mod Lit
