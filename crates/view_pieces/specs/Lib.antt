-- What the crate promises
pub mod Blocks
pub mod inside
