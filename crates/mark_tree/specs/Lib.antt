-- What the crate promises: all but those named next
-- What its parts say to each other: DimensionLaws, ExtentLaws, IdLaws, Meeting, Reaching

-- how many steps a call on marks or ranges takes at most
pub mod Bounds
-- the laws of places by number, by offset and by end
pub mod DimensionLaws
-- lists that are coded by the gaps between their offsets
pub mod Entries
-- how far runs of entries reach, and the laws of these extents as sums
pub mod ExtentLaws
pub mod Extents
-- between which ids those of a run of entries lie, and what that says of the entries
pub mod IdLaws
pub mod IdRanges
-- lists of marks, and what a replacement makes of them
pub mod Marks
-- which ranges have a byte in common with others
pub mod Meeting
-- the order of things at offsets, and their ids
pub mod Order
-- what things at offsets are seen as, where they are ranges
pub mod RangeViews
-- lists of ranges, and what a replacement makes of them
pub mod Ranges
-- which things reach an offset
pub mod Reaching
-- what things at offsets are seen as, where they are marks
pub mod Views
