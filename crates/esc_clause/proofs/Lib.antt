mod ClauseNotes
mod Dropping
mod Expanding
mod ExpansionLaws
mod Gathering
mod Indexing
mod Looking
mod MappedFront
pub mod OccurrencesLevels
pub mod Places
mod Refining
mod SaidOnce
