-- What the crate promises
pub mod Watching
