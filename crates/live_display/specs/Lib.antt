-- What the crate promises
pub mod Beside
pub mod Owned
pub mod Stepping
