-- What the crate promises
pub mod Stood
pub mod Standing
pub mod Landing
pub mod Items
pub mod Bounds
pub mod Worked
-- What its parts say to each other
pub mod inside
