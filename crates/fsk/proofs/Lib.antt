-- Laws on channels and their payloads.
pub mod Channel
pub mod Payloads
pub mod Played
