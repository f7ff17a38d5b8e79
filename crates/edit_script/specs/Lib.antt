-- What the crate promises
pub mod Commands
pub mod Verdict
pub mod Script
pub mod Printed
pub mod Laws
pub mod Answers
