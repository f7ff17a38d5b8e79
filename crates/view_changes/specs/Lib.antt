-- What the crate promises
pub mod Events
pub mod Operations
pub mod Sizes
pub mod inside
