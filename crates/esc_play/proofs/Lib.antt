pub mod Bringing
pub mod FormulaForms
pub mod Limit
pub mod MoreBehind
pub mod MorePlay
pub mod OrderSides
pub mod Played
