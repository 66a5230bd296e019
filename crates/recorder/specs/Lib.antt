pub mod Recording
pub mod Outcomes
pub mod private
