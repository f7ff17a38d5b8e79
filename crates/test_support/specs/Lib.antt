-- What the crate promises
pub mod Answered
pub mod Words
pub mod Told
