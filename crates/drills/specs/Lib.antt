-- Drills, demand 3 said over their frames after encoding, and drills played by what was set up from a bank.
pub mod Drills
pub mod Demand
pub mod Playing
