pub mod Drawings
pub mod Sizes
pub mod Limits
pub mod Scripts
pub mod Feeds
