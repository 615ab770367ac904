-- Definitions that the contracts cite.
pub mod Lines
pub mod Fields
pub mod Parser
pub mod Held
