-- What the functions' proofs cite, what the cue answers, and its cases: the example of 01's table of refusals, and the cues of 1234.
pub mod Cueing
pub mod Answers
pub mod Cases
