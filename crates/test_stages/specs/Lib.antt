-- What the crate promises
pub mod Places
pub mod Staged
