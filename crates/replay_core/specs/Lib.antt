pub mod Backwards
pub mod Gates
pub mod Replaying
pub mod Stepping
pub mod private
