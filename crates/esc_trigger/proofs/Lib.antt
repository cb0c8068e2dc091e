mod BoundTerms
pub mod ClearLevels
mod HoldAll
mod Numbers
mod PartLevels
pub mod TermLevels
mod WalkLevels
