pub mod Sender
pub mod Wave
pub mod Symbols
pub mod Sounds
pub mod Carries
