-- What the crate promises
pub mod Closed
pub mod Topped
-- What its parts say to each other
pub mod inside
