-- What the crate promises
pub mod Telling
pub mod Ended
pub mod Notes
pub mod RunLaws
-- What its parts say to each other
pub mod inside
