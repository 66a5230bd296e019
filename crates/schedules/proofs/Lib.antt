pub mod BoundFacts
pub mod GeneratorFacts
pub mod TextFacts
mod Rows
