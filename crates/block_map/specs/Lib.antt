-- What the crate promises: all but those named next
-- What its parts say to each other: RowCounts, inside

pub mod Between
pub mod Bounds
pub mod Carried
pub mod Follows
pub mod Maps
pub mod RowCounts
pub mod Stops
pub mod Worked
pub mod inside
