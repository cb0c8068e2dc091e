pub mod Laws
pub mod LiteralForms
pub mod Nodes
