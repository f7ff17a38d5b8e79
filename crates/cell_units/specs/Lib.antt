-- What the crate promises: what texts, records and operations are, and what is shown of them
pub mod Text
pub mod BufferLines
pub mod Points
pub mod Anchor
pub mod Sorting
pub mod Record
pub mod Operation
pub mod Cutting
pub mod Inlaid
pub mod Folded
pub mod Pieces
pub mod Touched
pub mod Layers
pub mod Lawful
pub mod Rows
pub mod Refusal
pub mod Steps
-- and what follows from these, and known cases of them
pub mod Joined
pub mod Folding
pub mod LineCounts
pub mod Laws
pub mod Worked
