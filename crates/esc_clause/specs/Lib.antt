pub mod ClauseContext
pub mod ClausesUndo
pub mod DecisionsInside
pub mod Expansion
pub mod Laws
pub mod Occurrences
pub mod PassesInside
pub mod Refinement
