-- What the parts of the crate say to each other.
pub mod Kept
pub mod Since
