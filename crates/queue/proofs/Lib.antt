-- Laws on queues.
pub mod Waiting
pub mod Lists
pub mod Reading
