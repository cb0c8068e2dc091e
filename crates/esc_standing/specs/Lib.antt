pub mod DepthsInside
pub mod DrawsInside
pub mod Formulas
pub mod Keeping
pub mod Literals
pub mod Standing
pub mod SurveyInside
pub mod Surveyed
