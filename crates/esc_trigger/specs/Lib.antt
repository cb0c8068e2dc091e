pub mod Candidates
pub mod Laws
pub mod Patterns
pub mod Triggers
pub mod Variables
pub mod WalkInside
