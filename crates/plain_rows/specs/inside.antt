-- What the parts of the crate say to each other.
pub mod Laying
pub mod Passed
pub mod PartPieces
pub mod BlockRows
pub mod BuiltRows
pub mod SpotRows
pub mod SpotSearch
pub mod SpotOffsets
pub mod LaidRows
