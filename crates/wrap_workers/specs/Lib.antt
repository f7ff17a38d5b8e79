-- What the crate promises
pub mod Jobs
pub mod Finishes
pub mod Owed
pub mod Errands
pub mod Posted
pub mod Crewed
pub mod QueueLaws
-- What its parts say to each other
pub mod inside
