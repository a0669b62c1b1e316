-- The words of the promises of `hrtf_setup`.
pub mod Speakers
pub mod Arrangement
pub mod Promise
