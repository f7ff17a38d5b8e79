-- What the parts of the crate say to each other.
pub mod Adjacent
pub mod Bounds
pub mod Extents
pub mod Gathering
pub mod Stretches
pub mod Changes
pub mod Landings
pub mod Kept
