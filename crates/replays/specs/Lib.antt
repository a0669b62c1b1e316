-- Replays in many calls, and what is shown of them.
pub mod Calls
pub mod Demand
