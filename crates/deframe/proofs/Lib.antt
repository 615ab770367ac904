-- Laws on frames and on the reader.
pub mod Frames
pub mod Parts
pub mod Resumed
pub mod Joined
pub mod Taking
pub mod ReadBack
