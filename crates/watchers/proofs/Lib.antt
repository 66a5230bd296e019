pub mod Tellings
mod LineFacts
