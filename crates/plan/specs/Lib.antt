pub mod Clock
pub mod Plan
pub mod Call
