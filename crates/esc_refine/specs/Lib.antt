pub mod Refining
pub mod RoundsInside
pub mod ThinningInside
