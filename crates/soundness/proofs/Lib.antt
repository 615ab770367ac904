-- That every stage begins with a sound state, and that a sound state is followed by another.
pub mod Limits
pub mod Dialling
pub mod Oscillators
pub mod Modulators
pub mod States
pub mod First
pub mod Next
pub mod Senders
pub mod Reading
