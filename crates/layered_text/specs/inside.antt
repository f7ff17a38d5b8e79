pub mod Kept
pub mod Showing
