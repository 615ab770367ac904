-- Laws on the processor, and its proving cases.
pub mod Cases
pub mod Few
pub mod Bytes
pub mod Sound
pub mod Outbox
pub mod Lines
pub mod Overlong
pub mod Before
