pub mod Commands
pub mod Formulas
pub mod Forms
pub mod Laws
pub mod Patterns
