pub mod Ends
pub mod Numbers
pub mod Members
pub mod Setting
pub mod Adding
pub mod Holding
pub mod Moved
