pub mod Findings
pub mod Held
pub mod Lookups
pub mod Posts
pub mod Queries
pub mod Quiet
pub mod Steps
