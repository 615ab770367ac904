pub mod Cue
