pub mod Watched
pub mod Lines
pub mod Kinds
pub mod Any
pub mod private
