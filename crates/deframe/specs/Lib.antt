-- Definitions that the contracts cite.
pub mod Unframe
pub mod Read
pub mod Calls
