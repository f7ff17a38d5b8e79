-- What the crate promises
pub mod Drawing
pub mod Made
pub mod Laws
