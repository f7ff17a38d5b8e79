pub mod Between
pub mod Placed
pub mod Together
pub mod Leads
pub mod LandedPlaces
pub mod LawfulLines
pub mod SetMarks
pub mod KeptLines
