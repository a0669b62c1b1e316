-- What the check of a file promises.
pub mod Checked
