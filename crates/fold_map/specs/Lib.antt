-- What the crate promises: all but those named next
-- What its parts say to each other: Changes, Cuts, LinePieces, Lines, Met, Positions, Spots

pub mod Amounts
pub mod Bounds
pub mod Changes
pub mod Cuts
pub mod LinePieces
pub mod Lines
pub mod Maps
pub mod Met
pub mod MetLines
pub mod Positions
pub mod Replaced
pub mod Snapshots
pub mod Splices
pub mod Spots
pub mod Synced
