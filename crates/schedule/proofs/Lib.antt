-- Laws on the clocks and on the stages' lengths, and 01's cases.
pub mod Constants
pub mod Count
pub mod Samples
pub mod Digits
pub mod Symbols
pub mod SymbolPhase
pub mod First
pub mod Lengths
pub mod Total
pub mod Edges
pub mod Cases
