-- What the crate promises: all but those named next
-- What its parts say to each other: OutRuns, Splicing, Works

pub mod Displays
pub mod Events
pub mod Identity
pub mod Journals
pub mod LawfulStates
pub mod LinePatches
pub mod OutRuns
pub mod Outs
pub mod Prepared
pub mod Replay
pub mod Sending
pub mod Splicing
pub mod Versions
pub mod Works
