pub mod ClassesInside
pub mod JudgingInside
pub mod Left
