-- What the parts of the crate say to each other.
pub mod Simple
pub mod Quiet
pub mod Parts
pub mod Marks
pub mod Filling
