-- What the crate promises
pub mod Answers
pub mod CaretLines
pub mod HostMarks
pub mod LentPieces
pub mod Lines
pub mod LoneDisplays
pub mod Slices
pub mod Troubles
pub mod Watches
pub mod Wrapping
