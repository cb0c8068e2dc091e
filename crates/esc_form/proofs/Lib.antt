mod BoundFormulas
mod Closed
mod CommandLemmas
pub mod FormulaLemmas
mod NoteLoops
mod Numberings
mod PatternLemmas
