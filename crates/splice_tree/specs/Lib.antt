-- What the crate promises
pub mod Bounds
pub mod Bytes
pub mod Laws
pub mod Sides
pub mod Splices
