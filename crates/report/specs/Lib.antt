pub mod Printing
pub mod Texts
pub mod Replies
pub mod Runs
pub mod Follows
