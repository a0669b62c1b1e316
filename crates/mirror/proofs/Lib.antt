-- Laws of mirrored scenes: of angles, directions and speakers, of blocks, of what is played of a scene, of the two
-- ears; of the parts of a sum, of the convolver and of surround gains. And readings that are refuted.
mod Angles
mod Swapped
mod Directions
mod Speakers
pub mod Blocks
pub mod Scenes
pub mod Ears
mod Parts
pub mod Convolver
mod Raw
mod Silent
pub mod Surround
mod Refuted
mod RefutedOrder
