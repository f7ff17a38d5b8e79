-- What its parts say to each other
pub mod Tested
pub mod Weights
