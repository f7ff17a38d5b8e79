-- What the crate promises
pub mod Kept
pub mod Bounds
