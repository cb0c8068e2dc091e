pub mod DigestsInside
pub mod Laws
pub mod Nodes
pub mod NodesInside
pub mod TableHeldInside
pub mod TableInside
pub mod Terms
pub mod TopDigest
