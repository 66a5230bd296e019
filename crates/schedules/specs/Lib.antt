pub mod Bounds
pub mod Generated
pub mod Texts
