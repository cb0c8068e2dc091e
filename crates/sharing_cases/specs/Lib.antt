pub mod ConstantLaws
pub mod ConstantTerms
pub mod Undoable
