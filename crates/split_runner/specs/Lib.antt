-- What its parts say to each other
pub mod Going
