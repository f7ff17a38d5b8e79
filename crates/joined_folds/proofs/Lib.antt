pub mod Alike
pub mod Fewer
pub mod JoinedLists
pub mod Meeting
pub mod Sweeps
pub mod Windows
