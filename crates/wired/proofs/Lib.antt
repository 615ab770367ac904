-- The chip that a table stands for, followed call by call; the theorem over every list, what it says read back, and that it is not empty.
pub mod Stands
pub mod Calls
pub mod Wired
pub mod Reading
pub mod Lists
pub mod Contracts
