pub mod Time
pub mod Rate
pub mod Dialling
pub mod Ringback
pub mod Ansam
pub mod Symbols
pub mod Length
pub mod Bounds
