-- Definitions that the contracts cite.
pub mod Page
pub mod Text
pub mod Digits
pub mod Seconds
pub mod Fields
