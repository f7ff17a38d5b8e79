-- What the crate promises
pub mod Rows
pub mod ShownRows
pub mod Spots
pub mod SpotRows
pub mod Worked
pub mod Laws
pub mod Plain
pub mod FoldedLines
pub mod Reach
-- What its parts say to each other
pub mod inside
