pub mod Modulator
pub mod Channel
pub mod Played
