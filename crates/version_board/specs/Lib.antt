-- What the crate promises
pub mod Rows
pub mod Known
pub mod Looking
-- What its parts say to each other
pub mod inside
