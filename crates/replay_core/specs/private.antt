-- Definitions of private contracts and proofs.
pub mod Held
pub mod Rounds
pub mod Sleeping
pub mod Steps
