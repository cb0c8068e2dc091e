pub mod Undoable
pub mod Undoing
