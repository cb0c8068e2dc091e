pub mod Formulas
pub mod Fractions
pub mod Names
pub mod Printing
pub mod Terms
