-- What a field of a list of bytes is.
pub mod Bytes
pub mod Fields
pub mod Lists
