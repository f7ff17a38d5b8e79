-- What the crate promises: all but those named next
-- What its parts say to each other: inside

-- how many steps a call on a list takes at most
pub mod Bounds
-- where a cursor is, and what it seeks
pub mod Cursors
-- which item of a list a place lies in, by one measure
pub mod Firsts
pub mod inside
-- what a test of items may learn from a sum
pub mod Probes
