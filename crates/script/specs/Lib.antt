-- The words of `script`: `Rendering` says document 02, `Promise` is the promise, `Stretches` are calls one after
-- another and separate calls of the panner, `DrillScript` what is shown of them, and `Computed` what the program's
-- steps hand to each other.
pub mod Rendering
pub mod Promise
pub mod Stretches
pub mod DrillScript
pub mod Computed
