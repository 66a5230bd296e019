pub mod Lines
pub mod Breaks
pub mod Faults
pub mod Latest
pub mod Looks
pub mod Sessions
pub mod Sittings
pub mod private
