-- What is said of mirrored scenes.
pub mod Partners
pub mod Blocks
pub mod Scenes
pub mod Ears
pub mod Parts
pub mod Convolver
pub mod Surround
