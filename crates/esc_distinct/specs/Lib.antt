pub mod Groups
pub mod GroupsInside
pub mod GroupsUndo
pub mod PassesInside
