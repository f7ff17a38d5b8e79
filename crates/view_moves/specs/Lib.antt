-- What the crate promises
pub mod Moves
pub mod Laws
pub mod Worked
