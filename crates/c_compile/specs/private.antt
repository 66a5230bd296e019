pub mod Emitted
pub mod Body
pub mod Example
