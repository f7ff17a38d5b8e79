-- What the crate promises
pub mod Words
pub mod Laws
pub mod ViewWords
-- What its parts say to each other
pub mod inside
