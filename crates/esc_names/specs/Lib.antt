pub mod BareNames
pub mod Numbering
pub mod Reading
pub mod Reserved
pub mod Rows
