pub mod ByClass
pub mod Indexing
