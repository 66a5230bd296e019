pub mod Standing
pub mod Seats
pub mod Listed
pub mod ListedFacts
