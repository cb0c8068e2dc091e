pub mod NodeTerms
pub mod Shapes
pub mod Tops
pub mod Linking
pub mod Digests
pub mod Passing
pub mod Spans
