-- The words of the promise of `stereo`.
pub mod Angle
pub mod Computed
pub mod Promise
