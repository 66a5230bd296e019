pub mod Stops
pub mod private
