-- What the crate promises
pub mod Lines
pub mod Met
pub mod Parts
pub mod Output
pub mod Theorems
