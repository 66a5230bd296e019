pub mod Content
pub mod Bytes
pub mod Names
pub mod Rules
pub mod Reading
pub mod Outcomes
pub mod Writing
pub mod private
