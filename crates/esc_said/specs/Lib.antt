pub mod HeldApart
pub mod SayingInside
pub mod Speaking
