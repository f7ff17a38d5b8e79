pub mod Carried
pub mod Carrying
pub mod Edges
pub mod LawProofs
pub mod Passing
pub mod Refills
pub mod Replacing
