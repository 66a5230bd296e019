pub mod Word
pub mod Channels
pub mod Message
pub mod Decimal
pub mod Fitting
pub mod Scripts
pub mod formers
