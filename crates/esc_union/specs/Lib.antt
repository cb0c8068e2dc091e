pub mod Laws
pub mod Members
pub mod Merges
pub mod PartitionInside
