pub mod ConstantGaps
pub mod ConstantNumbers
pub mod ConstantUndo
pub mod ConstantValues
pub mod GroundForms
pub mod Rising
pub mod Undoables
