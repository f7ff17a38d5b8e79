-- What the crate promises
pub mod TabLines
