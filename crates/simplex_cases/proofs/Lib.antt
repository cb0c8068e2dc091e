pub mod Kept
pub mod Rewound
pub mod Undoables
