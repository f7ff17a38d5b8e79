-- What the crate promises
pub mod Laws
