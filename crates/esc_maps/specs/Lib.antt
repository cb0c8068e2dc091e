pub mod Chosen
pub mod ChosenInside
pub mod MapMatches
pub mod Maps
pub mod ReadsInside
