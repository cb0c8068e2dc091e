pub mod HeldApart
pub mod Holding
pub mod Orders
pub mod Passing
pub mod SaidAs
pub mod Sharings
pub mod SomeTwo
pub mod Unlike
