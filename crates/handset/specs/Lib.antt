pub mod Sine
pub mod Rule
pub mod Wave
pub mod Tone
pub mod Sound
pub mod Call
pub mod Runs
pub mod Float
