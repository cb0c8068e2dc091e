pub mod Eaches
pub mod Entries
pub mod FreeGoals
pub mod Joining
pub mod NamesReadBack
pub mod Plain
pub mod PlainLevels
