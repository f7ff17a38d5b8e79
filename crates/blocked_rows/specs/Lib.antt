-- What the crate promises
pub mod Bounds
pub mod Laws
pub mod Records
pub mod Standing
pub mod Wrapped
