pub mod FoundText
pub mod Goals
pub mod Laws
pub mod Listed
pub mod LogText
pub mod PlainFormulas
pub mod PrintingLaws
pub mod Text
