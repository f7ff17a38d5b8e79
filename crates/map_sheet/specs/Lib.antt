-- What the crate promises
pub mod Kept
pub mod Changes
pub mod Listed
pub mod Bounds
