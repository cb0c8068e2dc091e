pub mod Levels
pub mod Proving
pub mod SearchInside
