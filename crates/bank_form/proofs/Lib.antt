-- Laws that a caller's proof cites, worked files and banks, that no two answers meet one promise, and refuted answers.
pub mod Lists
pub mod Pairs
pub mod Walk
pub mod Found
pub mod RoundTrip
pub mod Exact
pub mod Writer
pub mod Agree
pub mod Places
pub mod FieldPlaces
mod Each
pub mod Order
pub mod Start
pub mod Conversions
pub mod Worked
mod Unique
mod Refuted
