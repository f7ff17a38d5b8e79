pub mod Runs
pub mod Places
pub mod AlteredLines
pub mod Texts
pub mod PlainRuns
pub mod PlacedBlocks
pub mod FollowedText
