-- The words of the promises of `probe_planes`.
pub mod Answers
