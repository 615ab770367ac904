pub mod Sound
pub mod Sending
