-- What the parts of the crate say to each other.
pub mod Runs
pub mod Lines
pub mod Blocks
