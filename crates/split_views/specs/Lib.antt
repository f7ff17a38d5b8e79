-- What the crate promises: Views, Whole, Wrapping
-- What its parts say to each other: Kept, and HasWrappedNext of Wrapping

pub mod Kept
pub mod Views
pub mod Whole
pub mod Wrapping
