-- The claim and what it rests on, what it says read back, a worked list, and 01's proving cases.
pub mod Sent
pub mod Consistent
pub mod Claim
pub mod Joined
pub mod Expand
pub mod Strings
pub mod Reading
pub mod Lists
pub mod Worked
pub mod WorkedSent
pub mod Cases
pub mod Before
pub mod Contracts
pub mod Exits
