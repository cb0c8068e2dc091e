pub mod GrowingLog
pub mod MatchedFacts
mod Plain
pub mod RoundAfterRound
pub mod RoundFacts
