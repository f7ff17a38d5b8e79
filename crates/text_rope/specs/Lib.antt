-- What the crate promises: all but those named next
-- What its parts say to each other: Orders, RowSizes

-- how large a part of a text is
pub mod Sizes
-- how many steps a call on a text takes at most
pub mod Bounds
-- the chunks that a rope keeps, and the texts that ropes hold
pub mod Chunks
pub mod Ropes
-- the order of sizes, and the sizes by which rows are sought
pub mod Orders
pub mod RowSizes
-- where in the chunks an offset lies, and where a row starts
pub mod Finds
-- what is replaced in a text, when that is refused, and which chunks are made anew
pub mod Edits
