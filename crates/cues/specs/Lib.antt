-- The words of `cues`: `Cues` says document 02, `Computed` what the program's steps hand to each other, and `Promise`
-- what a list is judged to be and which cue holds.
pub mod Cues
pub mod Computed
pub mod Promise
