pub mod FormulaLevels
pub mod NoteLemmas
pub mod PrintingLemmas
pub mod SpacedLemmas
pub mod TermLevels
