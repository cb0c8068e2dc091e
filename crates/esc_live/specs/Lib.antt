pub mod Calls
pub mod Expanded
pub mod Laws
pub mod LiveUndo
pub mod Promises
pub mod StandingInside
pub mod View
