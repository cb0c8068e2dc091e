pub mod Combinations
pub mod Constants
pub mod PivotedLemmas
pub mod RowLemmas
pub mod SolvedLaws
