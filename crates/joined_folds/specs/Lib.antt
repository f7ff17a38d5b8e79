-- What the crate promises
pub mod JoinedLists
pub mod Sweeps
pub mod Windows
