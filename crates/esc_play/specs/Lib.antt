pub mod Play
pub mod WalkingInside
