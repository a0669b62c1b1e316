-- The words of the promise of `panner`: `Commands` and `Blocks` say document 01, `Promise` is the promise, `Halves`
-- those of its two halves, and `Computed` what the program's steps hand to each other.
pub mod Commands
pub mod Blocks
pub mod Promise
pub mod Halves
pub mod Computed
