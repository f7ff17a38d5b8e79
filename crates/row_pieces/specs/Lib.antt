-- What the crate promises
pub mod Pieces
pub mod Changed
pub mod Laws
pub mod Operated
pub mod Worked
pub mod Listed
pub mod inside
