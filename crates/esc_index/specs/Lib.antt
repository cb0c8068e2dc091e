pub mod IndexInside
pub mod Places
pub mod ThreadsInside
