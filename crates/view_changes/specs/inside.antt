-- What the parts of the crate say to each other.
pub mod Flags
pub mod OwnRows
pub mod Reaches
