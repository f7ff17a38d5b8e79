-- What the crate promises
pub mod Elements
pub mod Wrapping
pub mod Lines
pub mod Laws
pub mod Worked
pub mod RowTexts
pub mod Waiting
pub mod MarkRuns
-- What its parts say to each other
pub mod inside
