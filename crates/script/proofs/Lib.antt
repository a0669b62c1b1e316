-- The laws of `script`: of its segments and its answers; what the promise says of single samples; that a stretch may be
-- divided in any way, and is what the panner plays between cues; that no two answers meet the promise, and answers that
-- it refutes.
mod Segments
mod Meets
mod Playing
pub mod Played
pub mod Divided
pub mod Between
mod Cuts
mod DrillScript
mod Worked
mod Unique
mod Refuted
