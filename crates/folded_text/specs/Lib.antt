-- What the crate promises
pub mod Answered
pub mod Shown
