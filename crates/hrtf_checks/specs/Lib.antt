-- The words of the promise of `hrtf_checks`.
pub mod Call
pub mod Refusals
pub mod Computed
