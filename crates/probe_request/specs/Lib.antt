-- What the fields of a request stand for.
pub mod Requests
