-- What the parts of the crate say to each other.
pub mod Landing
pub mod Blocks
