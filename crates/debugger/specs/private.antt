pub mod Words
pub mod Asking
pub mod Making
pub mod Looking
pub mod Moving
