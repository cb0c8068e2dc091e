pub mod BoundTerms
pub mod Declaring
pub mod Levels
mod Numerals
pub mod Readings
pub mod Scopes
pub mod Slices
pub mod TermLemmas
mod TokenLemmas
