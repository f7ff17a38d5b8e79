-- What the crate promises: all but those named next
-- What its parts say to each other: Merge

pub mod Came
pub mod Patch
pub mod Fits
pub mod Merge
pub mod Covering
pub mod LayerLeads
pub mod Leads
