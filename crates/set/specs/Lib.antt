pub mod Refusals
pub mod Sound
pub mod Set
pub mod String
pub mod Book
pub mod Event
pub mod Before
pub mod Promises
