pub mod Forms
pub mod Laws
pub mod Lin
pub mod PlacesInside
pub mod Steps
