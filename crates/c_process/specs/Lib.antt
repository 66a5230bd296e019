pub mod Standing
pub mod Shown
pub mod Values
pub mod Following
pub mod Compiled
pub mod Begun
pub mod private
