-- Laws on lines.
pub mod Mapped
pub mod Begins
pub mod Pushed
pub mod Cases
pub mod Overlong
pub mod Digits
pub mod Forms
