-- Laws on phases and steps.
pub mod Phase
pub mod Steps
