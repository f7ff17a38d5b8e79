-- What the crate promises: all but those named next
-- What its parts say to each other: RowCounts

pub mod Changes
pub mod Chunks
pub mod Faults
pub mod HeldLines
pub mod Landing
pub mod LineSplices
pub mod LineStep
pub mod Refusals
pub mod RowCounts
pub mod Sheets
pub mod Shown
pub mod Windows
pub mod Wraps
