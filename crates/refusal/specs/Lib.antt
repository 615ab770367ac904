-- Why a call is declined.
pub mod Refusal
