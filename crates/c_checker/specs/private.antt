pub mod Places
pub mod Patterns
pub mod InScope
