pub mod Children
pub mod ChildValues
pub mod Counts
pub mod Heights
pub mod Items
pub mod Levels
pub mod Lists
