-- What the crate promises: all but those named next
-- What its parts say to each other: Spots

pub mod Amounts
pub mod Bounds
pub mod InlaidShifts
pub mod Kept
pub mod Maps
pub mod Met
pub mod Splices
pub mod Spots
