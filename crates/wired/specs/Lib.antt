-- The register table, the lists of calls, and what is promised of them.
pub mod Table
pub mod Trace
pub mod Wired
