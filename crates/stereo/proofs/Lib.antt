-- The laws of the stereo gains. The drill table, the panner and the test program cite `Drill`.
mod Clamp
mod Near
mod Meets
mod Unique
pub mod Drill
mod Refuted
