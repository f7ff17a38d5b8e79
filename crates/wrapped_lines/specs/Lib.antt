-- What the crate promises
pub mod Places
pub mod WrappedSource
pub mod Changed
pub mod Laws
-- What its parts say to each other
pub mod inside
