pub mod Pauses
pub mod Divided
pub mod View
pub mod Standing
pub mod Machines
pub mod private
