-- Laws on the sine's accuracy and on the size of a sample.
pub mod Nearness
pub mod Horner
pub mod Series
pub mod QuarterWave
pub mod Turn
pub mod Accuracy
pub mod Peak
pub mod SineSize
pub mod DecaySize
pub mod Level
pub mod Overture
pub mod Fill
pub mod Reading
