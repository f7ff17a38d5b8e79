-- What the crate promises
pub mod Layered
-- How many steps its calls take
pub mod Bounds
-- What its parts say to each other
pub mod inside
