-- What the crate promises
pub mod Outside
pub mod Entries
pub mod Legal
pub mod CaretLines
pub mod Output
pub mod Course
pub mod Going
pub mod Writing
pub mod Stopping
-- What its parts say to each other
pub mod inside
