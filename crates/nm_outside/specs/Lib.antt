pub mod Causes
pub mod Files
pub mod Fetched
pub mod Begun
pub mod InMemory
pub mod Failing
pub mod Held
pub mod private
