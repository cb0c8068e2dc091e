pub mod CommandInside
pub mod FoundInside
pub mod Uses
pub mod Words
