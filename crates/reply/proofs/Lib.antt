-- Laws on texts.
pub mod Other
