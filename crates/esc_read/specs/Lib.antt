pub mod Laws
pub mod Names
pub mod Reading
pub mod Terms
pub mod Tokens
