mod ClosedFacts
mod LogLemmas
mod Named
mod Numbers
mod Places
pub mod Quantifiers
