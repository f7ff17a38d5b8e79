-- What the crate promises
pub mod Biases
pub mod Calls
pub mod Changes
pub mod Handles
pub mod Held
pub mod Pieces
pub mod Statuses
