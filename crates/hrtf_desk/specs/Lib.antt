-- The words of the promises of `hrtf_desk`.
pub mod Numbers
