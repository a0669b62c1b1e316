-- The words of the promises of `stamps`, and the definition of a replayed recording.
pub mod Arrivals
pub mod Counts
pub mod Events
pub mod Computed
