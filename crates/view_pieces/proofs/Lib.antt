pub mod Lists
pub mod LandedRows
pub mod SideBlocks
pub mod Stamps
pub mod Lines
