-- The words of the promises of `probe_setup`.
pub mod Answers
