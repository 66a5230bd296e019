pub mod Receiving
pub mod Stages
pub mod Lost
pub mod Seen
